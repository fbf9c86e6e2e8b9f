-- Places of no variable change nothing: a search over values with zeros after them goes as one without, and its model has the zeros after it.
use mathlib.Core.Path.{◌≡◌, refl, sym, ap, ap₂, ◌∙◌}
use mathlib.Core.Logic.{◌⊎◌, inl, inr}
use mathlib.Core.Bool.{Bool, true, false}
use mathlib.Core.List.{List, [], ◌∷◌, ◌++◌}
use Prim.Native.Nat.{ℕ, zero, suc, ◌<◌}
use native.Mathlib.Nat.{le_refl, le_of_eq}
use native.Mathlib.Omega.{arith}
use lib.ListN.{length, get_or, set, replicate, length-append}
use lib.Seq.{set-append_left}
use Rattle.numbers.proofs.Places.{zeros_at}
use Rattle.setups.specs.declared.Seen.{Seen}
use Rattle.setups.specs.declared.Seen.TheVariants.{AllFalse, OneFree, Enough}
use Rattle.setups.specs.Clauses.{place, wish}
use Rattle.setups.specs.Settling.{put}
use Rattle.setups.specs.Search.{SearchResult, Model, None, Lowest}
use Rattle.setups.specs.Searching.{see_value, see, see_clause, or_else, scan, free_count, lowest_free, Settled, settle, split, visit}
use Rattle.setups.proofs.Settling.{free_inside, free_value}
use Rattle.setups.proofs.Scanning.{scan_right, free_set, Full, lowest_cases, lowest_only, lowest_none}
use Rattle.setups.proofs.Visits.{scan_fewer, settle_fails, settle_on, settle_stops, settle_fewer, visit_none, visit_model, visit_split}

-- the values, and then k zeros
abbrev pub pad : ℕ → List ℕ → List ℕ
pad k values = values ++ replicate k 0

-- what a search over such values finds
abbrev pub padded : ℕ → SearchResult → SearchResult
padded k (Model m visits) = Model (pad k m) visits
padded k (None visits) = None visits

module _ (k : ℕ) where
  -- ---- a value, a scan

  get_or_pad : (values : List ℕ) (i : ℕ) → get_or (pad k values) i 0 ≡ get_or values i 0
  get_or_pad [] i = zeros_at k i
  get_or_pad (x ∷ values) zero = refl
  get_or_pad (x ∷ values) (suc i) = get_or_pad values i

  judge_pad : (values : List ℕ) (seen : Seen) (clause : List ℕ) → see_clause (pad k values) seen clause ≡ see_clause values seen clause
  unfolding see_clause
  judge_pad values seen [] = refl
  judge_pad values seen (b ∷ clause) =
      judge_pad values (see (pad k values) seen b) clause
      ∙ ap (λ (x : ℕ). see_clause values (see_value seen b x) clause) (get_or_pad values (place b))

  scan_pad : (values : List ℕ) (cs : List (List ℕ)) → scan (pad k values) cs ≡ scan values cs
  unfolding scan
  scan_pad values [] = refl
  scan_pad values (clause ∷ rest) = ap₂ or_else (judge_pad values AllFalse clause) (scan_pad values rest)

  -- ---- settling

  -- the end of settling with the zeros after its values
  ended : Settled → Settled
  ended s = record { fails = s.fails; values = pad k s.values }

  -- a forced value stands before the zeros
  put_pad : (cs : List (List ℕ)) (values : List ℕ) (b : ℕ) → scan values cs ≡ OneFree b → put (pad k values) b ≡ pad k (put values b)
  put_pad cs values b e =
      set-append_left values (replicate k 0) (place b) (wish b)
      (free_inside values (place b) ((free_value values b).0 (scan_right values cs (OneFree b) e).2.free))

  settle_pads : (f : ℕ) (cs : List (List ℕ)) (values : List ℕ) → free_count values < f → settle cs (pad k values) ≡ ended (settle cs values)
  unfolding ended
  settle_pads zero cs values h = absurd (omega arith)
  settle_pads (suc f) cs values h = go (scan values cs) refl (settle_pads f cs)
    where
      go : (seen : Seen) → scan values cs ≡ seen → ((next : List ℕ) → free_count next < f → settle cs (pad k next) ≡ ended (settle cs next))
          → settle cs (pad k values) ≡ ended (settle cs values)
      go AllFalse e rest = settle_fails cs (pad k values) (scan_pad values cs ∙ e) ∙ ap ended (sym (settle_fails cs values e))
      go (OneFree b) e rest =
          let n = scan_fewer cs values b e in
          settle_on cs (pad k values) b (scan_pad values cs ∙ e) ∙ ap (settle cs) (put_pad cs values b e) ∙ rest (put values b) (omega arith)
          ∙ ap ended (sym (settle_on cs values b e))
      go Enough e rest = settle_stops cs (pad k values) (scan_pad values cs ∙ e) ∙ ap ended (sym (settle_stops cs values e))

  settle_pad : (cs : List (List ℕ)) (values : List ℕ) → settle cs (pad k values) ≡ ended (settle cs values)
  settle_pad cs values = settle_pads (suc (free_count values)) cs values (le_refl (suc (free_count values)))

  -- ---- the lowest free value

  lowest_pad : (values : List ℕ) (i : ℕ) → Lowest values i → Lowest (pad k values) i
  lowest_pad values i l = record {
    inside = omega (arith, length-append values (replicate k 0), l.inside);
    free = rw (get_or_pad values i) l.free;
    lowest = λ j h. rw (get_or_pad values j) (l.lowest j h);
  }

  full_pad : (values : List ℕ) → Full values → Full (pad k values)
  full_pad values h i = rw (get_or_pad values i) (h i)

  -- ---- visits

  split_pad : (low high : SearchResult) → split (padded k low) (padded k high) ≡ padded k (split low high)
  split_pad (Model m visits) high = refl
  split_pad (None visits) (Model m more) = refl
  split_pad (None visits) (None more) = refl

  visit_pads : (f : ℕ) (cs : List (List ℕ)) (values : List ℕ) → free_count values < f → visit cs (pad k values) ≡ padded k (visit cs values)
  unfolding ended
  visit_pads zero cs values h = absurd (omega arith)
  visit_pads (suc f) cs values h = go (settle cs values).fails refl (lowest_cases end) (visit_pads f cs)
    where
      end : List ℕ
      end = (settle cs values).values

      ends : (settle cs values).fails ≡ false → settle cs (pad k values) ≡ record { fails = false; values = pad k end }
      ends e = settle_pad cs values ∙ λ i. record { fails = e i; values = pad k end }

      go : (q : Bool) → (settle cs values).fails ≡ q → Lowest end (lowest_free end) ⊎ (Full end × (lowest_free end ≡ length end))
          → ((next : List ℕ) → free_count next < f → visit cs (pad k next) ≡ padded k (visit cs next))
          → visit cs (pad k values) ≡ padded k (visit cs values)
      go true e l rest =
          visit_none cs (pad k values) (ap (λ (s : Settled). s.fails) (settle_pad cs values) ∙ e)
          ∙ ap (padded k) (sym (visit_none cs values e))
      go false e (inl l) rest =
          let i = lowest_free end in
          let same = lowest_only (lowest_pad end i l) in
          let fewer = settle_fewer cs values in
          let side : (x : ℕ) → x < 2 → visit cs (set (pad k end) (lowest_free (pad k end)) x) ≡ padded k (visit cs (set end i x)) =
          λ x b.
          ap (λ (j : ℕ). visit cs (set (pad k end) j x)) same ∙ ap (visit cs) (set-append_left end (replicate k 0) i x l.inside)
          ∙ rest (set end i x) (omega (arith, free_set end i x l.free b)) in
          visit_split cs (pad k values) (pad k end) (ends e) (rw same (lowest_pad end i l).inside)
          ∙ ap₂ split (side 0 (omega arith)) (side 1 (omega arith)) ∙ split_pad (visit cs (set end i 0)) (visit cs (set end i 1))
          ∙ ap (padded k) (sym (visit_split cs values end (λ j. record { fails = e j; values = end }) l.inside))
      go false e (inr l) rest =
          visit_model cs (pad k values) (pad k end) (ends e) (le_of_eq (sym (lowest_none (pad k end) (full_pad end l.0))))
          ∙ ap (padded k) (sym (visit_model cs values end (λ j. record { fails = e j; values = end }) (le_of_eq (sym l.1))))

  pub visit_pad : (cs : List (List ℕ)) (values : List ℕ) → visit cs (pad k values) ≡ padded k (visit cs values)
  visit_pad cs values = visit_pads (suc (free_count values)) cs values (le_refl (suc (free_count values)))
