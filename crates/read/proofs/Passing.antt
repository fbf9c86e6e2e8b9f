-- The pass that checks: which frame the reader tells of at a place, and what the lines come to from there.
use mathlib.Core.Path.{◌≡◌, refl, sym, ap, ◌∙◌, subst}
use mathlib.Core.List.{List, [], ◌∷◌, ◌++◌}
use Prim.Native.Nat.{ℕ, ◌+◌, ◌≤◌, ◌<◌}
use native.Mathlib.Omega.{arith}
use lib.ListN.{length, drop, length-append}
use Rattle.std.proofs.Common.{Option, Some, None, Result, Ok, Err, Bor}
use Rattle.frames.specs.declared.frames.Frame.{Frame as ToldFrame}
use Rattle.frames.specs.declared.frames.Frame.TheVariants.{Header, Hard, Soft, End}
use Rattle.frames.specs.declared.frames.Found.{Found}
use Rattle.frames.specs.declared.reader.FrameReader.{FrameReader}
use Rattle.frames.specs.Frames.{lines, hard_kind, soft_kind, Frame, header, hard, soft, end, no_frame, frame}
use Rattle.frames.specs.Code.Found.{place_after, told_frame, found, found_at, next_place}
use Rattle.frames.proofs.Lines.{first}
use Rattle.read.specs.declared.ReadSetup.{ReadSetup}
use Rattle.read.specs.declared.BadLine.{BadLine}
use Rattle.read.specs.Texts.{Sofar, fresh, under, closed, spoilt, ending, following, good, bad, close, follow, judge}
use Rattle.read.specs.Code.Passes.{checked}
use Rattle.read.proofs.Following.{Real, Clause, clause, frame_ends, follow_end, follow_bad, follow_none, follow_frame}

-- ---- which frame is told of

-- what is found tells of the frame f
abbrev Tells : ℕ → Frame → Option Found → Type 0
Tells at f None = f ≡ no_frame
Tells at f (Some r) = (told_frame f ≡ Some r.frame) × (r.next ≡ place_after at f)

tells : (at : ℕ) (f : Frame) → Tells at f (found at f)
tells at (header count) = (refl, refl)
tells at (hard ls) = (refl, refl)
tells at (soft ls) = (refl, refl)
tells at end = (refl, refl)
tells at no_frame = refl

found_tells : (t : List ℕ) (at : ℕ) (r : Option Found) → r ≡ found_at t at → Tells at (frame (first (drop at t))) r
unfolding found_at
found_tells t at r e = subst (Tells at (frame (first (drop at t)))) (sym e) (tells at (frame (first (drop at t))))

-- each kind
told_header : (f : Frame) (count : ℕ) → told_frame f ≡ Some (Header count) → f ≡ header count
told_header (header c) count e = cc
told_header (hard ls) count e = cc
told_header (soft ls) count e = cc
told_header end count e = cc
told_header no_frame count e = cc

told_hard : (f : Frame) (k : ℕ) → told_frame f ≡ Some (Hard k) → (ls : List ℕ) × (f ≡ hard ls) × (k ≡ length ls)
told_hard (header c) k e = cc
told_hard (hard ls) k e = (ls, refl, cc)
told_hard (soft ls) k e = cc
told_hard end k e = cc
told_hard no_frame k e = cc

told_soft : (f : Frame) (k : ℕ) → told_frame f ≡ Some (Soft k) → (ls : List ℕ) × (f ≡ soft ls) × (k ≡ length ls)
told_soft (header c) k e = cc
told_soft (hard ls) k e = cc
told_soft (soft ls) k e = (ls, refl, cc)
told_soft end k e = cc
told_soft no_frame k e = cc

told_end : (f : Frame) → told_frame f ≡ Some End → f ≡ end
told_end (header c) e = cc
told_end (hard ls) e = cc
told_end (soft ls) e = cc
told_end end e = refl
told_end no_frame e = cc

-- a frame stands at a place, and its line ends before the next
pub record Stands (t : List ℕ) (at : ℕ) (f : Frame) (next : ℕ) : Type 0 where
  pub is : frame (first (drop at t)) ≡ f
  pub real : Real f
  pub ends : next ≡ place_after at f

-- the literals of a clause, k of them
pub record Literals (t : List ℕ) (at : ℕ) (kind : List ℕ → Frame) (k next : ℕ) : Type 0 where
  pub literals : List ℕ
  pub stands : Stands t at (kind literals) next
  pub size : k ≡ length literals
  pub clause : Clause t at literals k

module _ (t : List ℕ) (at : ℕ) (r : Found) (e : Some r ≡ found_at t at) where
  pub header_stands : (count : ℕ) → r.frame ≡ Header count → Stands t at (header count) r.next
  header_stands count q =
      let f = found_tells t at (Some r) e in
      let is = told_header _ count (f.0 ∙ ap Some q) in
      record { is = is; real = tt; ends = f.1 ∙ ap (place_after at) is }

  pub hard_stands : (k : ℕ) → r.frame ≡ Hard k → Literals t at hard k r.next
  hard_stands k q =
      let f = found_tells t at (Some r) e in
      let is = told_hard _ k (f.0 ∙ ap Some q) in
      record { literals = is.0; stands = record { is = is.1; real = tt; ends = f.1 ∙ ap (place_after at) is.1 }; size = is.2; clause = clause t at (hard is.0) hard_kind is.0 k is.1 tt refl is.2 }

  pub soft_stands : (k : ℕ) → r.frame ≡ Soft k → Literals t at soft k r.next
  soft_stands k q =
      let f = found_tells t at (Some r) e in
      let is = told_soft _ k (f.0 ∙ ap Some q) in
      record { literals = is.0; stands = record { is = is.1; real = tt; ends = f.1 ∙ ap (place_after at) is.1 }; size = is.2; clause = clause t at (soft is.0) soft_kind is.0 k is.1 tt refl is.2 }

  pub end_stands : r.frame ≡ End → Stands t at end r.next
  end_stands q =
      let f = found_tells t at (Some r) e in
      let is = told_end _ (f.0 ∙ ap Some q) in
      record { is = is; real = tt; ends = f.1 ∙ ap (place_after at) is }

pub none_stands : (t : List ℕ) (at : ℕ) → None ≡ found_at t at → frame (first (drop at t)) ≡ no_frame
none_stands t at e = found_tells t at None e

-- the next place lies within the text
pub stands_within : (t : List ℕ) (at : ℕ) (f : Frame) (next : ℕ) → at ≤ length t → Stands t at f next → next ≤ length t
stands_within t at f next h s = rw s.ends (frame_ends t at f h s.is s.real)

module _ (t : List ℕ) (at n : ℕ) (sofar : Sofar) (goes : follow n sofar (lines (drop at t)) ≡ judge t) where
  -- past a frame
  pub onward : (f : Frame) (next : ℕ) → Stands t at f next → follow (n + 1) (following n sofar f) (lines (drop next t)) ≡ judge t
  onward f next s = rw s.ends (sym (follow_frame t at n sofar f s.is s.real) ∙ goes)

  -- at a line that may not stand here
  pub stops : (f : Frame) → frame (first (drop at t)) ≡ f → close n sofar ≡ bad n → following n sofar f ≡ spoilt n → judge t ≡ bad n
  stops f e c b = sym goes ∙ follow_none t at n sofar c (rw e b)

pub begins : (t : List ℕ) → follow 1 fresh (lines (drop 0 t)) ≡ judge t
unfolding judge
begins t = refl

-- ---- the pass

-- what the reader's `next` tells and leaves
abbrev pub Gives : FrameReader → Option Found → FrameReader → Type 0
Gives before o after = (o ≡ found_at before.text.now before.at) × (after.text ≡ before.text) × (after.at ≡ next_place before.at o)

-- the reader stands at a place of the text
pub record Within (t : List ℕ) (reader : FrameReader) : Type 0 where
  pub text : reader.text.now ≡ t
  pub inside : reader.at ≤ length t

-- what it tells there is found in that text
pub found_there : (t : List ℕ) (before after : FrameReader) (o : Option Found) → Within t before → Gives before o after → o ≡ found_at t before.at
found_there t before after o w g = g.0 ∙ ap (λ (text : List ℕ). found_at text before.at) w.text

-- past a frame it stands there too
pub passes : (t : List ℕ) (before after : FrameReader) (r : Found) (f : Frame) → Within t before → Gives before (Some r) after → Stands t before.at f r.next → Within t after
passes t before after r f w g s =
    record { text = ap (λ (text : Bor (List ℕ)). text.now) g.1 ∙ w.text; inside = omega (arith, g.2, stands_within t before.at f r.next w.inside s) }

-- it begins there
pub new_within : (text : Bor (List ℕ)) (reader : FrameReader) → (reader.text ≡ text) × (reader.at ≡ 0) → Within text.now reader
new_within text reader e = record { text = ap (λ (text : Bor (List ℕ)). text.now) e.0; inside = omega (arith, e.1) }

-- how many bytes there are with a clause more
clause_length : (bytes ls : List ℕ) (n k : ℕ) → n ≡ length bytes → k ≡ length ls → n + (k + 1) ≡ length (bytes ++ ending ls)
clause_length bytes ls n k b e = rw (length-append bytes (ending ls), length-append ls (0 ∷ [])) (omega arith)

-- before this line these clause bytes have come, and the lines from the reader's place on decide what the text says
pub record Underway (t : List ℕ) (reader : FrameReader) (count hards softs line : ℕ) : Type 0 where
  pub within : Within t reader
  pub h : List ℕ
  pub s : List ℕ
  pub hard_is : hards ≡ length h
  pub soft_is : softs ≡ length s
  pub small : hards + softs + line + 3 ≤ reader.at
  pub goes : follow line (under count h s) (lines (drop reader.at t)) ≡ judge t

-- what is told of a bad text, and of a good one
abbrev tells_bad : ℕ → Result ReadSetup BadLine
tells_bad n = Err (record { line = n })

abbrev tells_good : ℕ → ℕ → ℕ → Result ReadSetup BadLine
tells_good count hards softs = Ok (record { count = count; hard_filled = hards; soft_filled = softs })

is_bad_at : (t : List ℕ) (n : ℕ) → judge t ≡ bad n → tells_bad n ≡ checked (judge t)
is_bad_at t n b = rw b

module _ (t : List ℕ) (before after : FrameReader) (o : Option Found) (starts : before.at ≡ 0) (w : Within t before) (g : Gives before o after) where
  here : o ≡ found_at t 0
  here = found_there t before after o w g ∙ ap (found_at t) starts

  -- the first line is a header,
  pub first_header : (r : Found) (count : ℕ) → o ≡ Some r → r.frame ≡ Header count → Underway t after count 0 0 2
  first_header r count e q =
      let s = header_stands t 0 r (sym e ∙ here) count q in
      let at : after.at ≡ r.next = g.2 ∙ ap (next_place before.at) e in
      record {
        within = record { text = ap (λ (text : Bor (List ℕ)). text.now) g.1 ∙ w.text; inside = omega (arith, at, stands_within t 0 (header count) r.next (omega arith) s) };
        h = [];
        s = [];
        hard_is = refl;
        soft_is = refl;
        small = omega (arith, at, s.ends);
        goes = rw at (onward t 0 1 fresh (begins t) (header count) r.next s);
      }

  -- or it is bad
  pub no_first : o ≡ None → tells_bad 1 ≡ checked (judge t)
  no_first e = is_bad_at t 1 (stops t 0 1 fresh (begins t) no_frame (none_stands t 0 (sym e ∙ here)) refl refl)

  pub first_other : (r : Found) → o ≡ Some r → ((count : ℕ) → ¬ (r.frame ≡ Header count)) → tells_bad 1 ≡ checked (judge t)
  first_other r e other = first_case r.frame refl
    where
      stop : (f : Frame) → Stands t 0 f r.next → following 1 fresh f ≡ spoilt 1 → tells_bad 1 ≡ checked (judge t)
      stop f s b = is_bad_at t 1 (stops t 0 1 fresh (begins t) f s.is refl b)

      first_case : (told : ToldFrame) → r.frame ≡ told → tells_bad 1 ≡ checked (judge t)
      first_case (Header count) q = absurd (other count q)
      first_case (Hard k) q = let x = hard_stands t 0 r (sym e ∙ here) k q in stop (hard x.literals) x.stands refl
      first_case (Soft k) q = let x = soft_stands t 0 r (sym e ∙ here) k q in stop (soft x.literals) x.stands refl
      first_case End q = stop end (end_stands t 0 r (sym e ∙ here) q) refl

module _ {t : List ℕ} {before : FrameReader} {count hards softs line : ℕ} (u : Underway t before count hards softs line) (after : FrameReader) where
  -- no frame
  pub no_more : Gives before None after → tells_bad line ≡ checked (judge t)
  no_more g = is_bad_at t line (stops t before.at line (under count u.h u.s) u.goes no_frame (none_stands t before.at (found_there t before after None u.within g)) refl refl)

  module _ (r : Found) (g : Gives before (Some r) after) where
    e : Some r ≡ found_at t before.at
    e = found_there t before after (Some r) u.within g

    -- the lines after a frame
    onward_from : (f : Frame) → Stands t before.at f r.next → follow (line + 1) (following line (under count u.h u.s) f) (lines (drop after.at t)) ≡ judge t
    onward_from f s = rw g.2 (onward t before.at line (under count u.h u.s) u.goes f r.next s)

    -- a second header
    pub header_again : (again : ℕ) → r.frame ≡ Header again → tells_bad line ≡ checked (judge t)
    header_again again q = is_bad_at t line (stops t before.at line (under count u.h u.s) u.goes (header again) (header_stands t before.at r e again q).is refl refl)

    -- a clause more
    pub hard_more : (k : ℕ) → r.frame ≡ Hard k → Underway t after count (hards + (k + 1)) softs (line + 1)
    hard_more k q =
        let x = hard_stands t before.at r e k q in
        record {
          within = passes t before after r (hard x.literals) u.within g x.stands;
          h = u.h ++ ending x.literals;
          s = u.s;
          hard_is = clause_length u.h x.literals hards k u.hard_is x.size;
          soft_is = u.soft_is;
          small = omega (arith, u.small, x.size, x.stands.ends, g.2);
          goes = onward_from (hard x.literals) x.stands;
        }

    pub soft_more : (k : ℕ) → r.frame ≡ Soft k → Underway t after count hards (softs + (k + 1)) (line + 1)
    soft_more k q =
        let x = soft_stands t before.at r e k q in
        record {
          within = passes t before after r (soft x.literals) u.within g x.stands;
          h = u.h;
          s = u.s ++ ending x.literals;
          hard_is = u.hard_is;
          soft_is = clause_length u.s x.literals softs k u.soft_is x.size;
          small = omega (arith, u.small, x.size, x.stands.ends, g.2);
          goes = onward_from (soft x.literals) x.stands;
        }

    -- FF: the line after it is bad, or it is the last
    module _ (q : r.frame ≡ End) where
      closes : follow (line + 1) (closed count u.h u.s) (lines (drop r.next t)) ≡ judge t
      closes = onward t before.at line (under count u.h u.s) u.goes end r.next (end_stands t before.at r e q)

      pub line_after : r.next < length t → tells_bad (line + 1) ≡ checked (judge t)
      line_after l = is_bad_at t (line + 1) (sym closes ∙ follow_bad t r.next (line + 1) (closed count u.h u.s) l refl)

      pub line_last : length t ≤ r.next → tells_good count hards softs ≡ checked (judge t)
      line_last l =
          let j : judge t ≡ good count u.h u.s = sym closes ∙ follow_end t r.next (line + 1) (closed count u.h u.s) l in
          rw (j, u.hard_is, u.soft_is)

-- what has been counted after each clause
pub ruleset counts = (hard_more, soft_more)
