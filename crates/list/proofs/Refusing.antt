-- The refusals before the search: those of the clauses come last.
use mathlib.Core.Path.{◌≡◌, refl, sym}
use mathlib.Core.List.{List}
use Rattle.std.specs.Prelude.{Ok}
use Prim.Native.Nat.{ℕ, ◌≤◌}
use Rattle.setups.specs.Limits.{variables_most}
use Rattle.setups.specs.Setups.{setup, count}
use Rattle.setups.specs.Code.Checks.{Judges}
use Rattle.setups.specs.Code.Taken.{Taken}
use Rattle.setups.proofs.JudgeLaws.{fine_clauses}

-- where none before them is given and none of theirs is, the setup is one that every search takes
pub judged : (n : ℕ) (hard soft : List ℕ) (settings : ℕ) → n ≤ variables_most → Judges n hard soft (Ok settings)
    → Taken (setup n hard soft) × (settings ≡ count (setup n hard soft))
judged n hard soft settings v j =
    let fine = fine_clauses n hard soft 0 (sym (j.first 0)) in
    (record { variables = v; hard = fine.hard_literals; soft = fine.soft_literals; settings = fine.settings_few }, j.counts settings refl)
