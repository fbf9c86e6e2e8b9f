-- How many places Read has filled.
use Rattle.std.proofs.Common.{Result, Ok}
use mathlib.Core.Path.{◌≡◌, sym, subst}
use mathlib.Core.List.{List}
use Prim.Native.Nat.{ℕ, ◌≤◌, zero-le}
use native.Mathlib.Omega.{arith}
use lib.Dec.{eqb}
use lib.ListN.{length, drop, length-append}
use Rattle.numbers.proofs.Deciding.{cond_case}
use Rattle.setups.specs.declared.Refusal.{Refusal}
use Rattle.read.specs.declared.ReadSetup.{ReadSetup}
use Rattle.read.specs.Texts.{judge, hard_of, soft_of}
use Rattle.read.specs.Read.{ReadResult, read_refusal, read_result}
use Rattle.setups.specs.Written.{written}
use Rattle.read.specs.Reading.{answered as read_answered}

-- the places that Read has filled are places of its buffers
abbrev ReadFits : ReadResult → Type 0
ReadFits r = (r.hard_filled ≤ length r.hard) × (r.soft_filled ≤ length r.soft)

filled_fits : (bytes buffer : List ℕ) → length bytes ≤ length (written bytes buffer)
filled_fits bytes buffer = omega (arith, length-append bytes (drop (length bytes) buffer))

pub read_fits : (text hard soft : List ℕ) (r : ReadResult) → r ≡ read_result text hard soft → (r.hard_filled ≤ length r.hard) × (r.soft_filled ≤ length r.soft)
unfolding read_result
read_fits text hard soft r e =
    subst ReadFits (sym e)
    (cond_case ReadFits (eqb (read_refusal text (length hard) (length soft)) 0)
    (λ q. (filled_fits (hard_of (judge text)) hard, filled_fits (soft_of (judge text)) soft)) (λ q. (zero-le, zero-le)))

pub read_places : (text hard soft : List ℕ) (answer : Result ReadSetup Refusal) (hard' soft' : List ℕ) → read_answered answer hard' soft' ≡ read_result text hard soft
    → (s : ReadSetup) → answer ≡ Ok s → (s.hard_filled ≤ length hard') × (s.soft_filled ≤ length soft')
read_places text hard soft answer hard' soft' p s e =
    read_fits text hard soft (read_answered (Ok s) hard' soft') (rw e at p)
