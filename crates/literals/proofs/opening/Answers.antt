-- `literals::opening` meets its contract: what `fill` writes are free values, and zeros stand after them.
use Rattle.std.proofs.Common.{◌≡◌, List, ℕ, ◌++◌, ◌≤◌, drop, take, replicate, length, arith, length-take}
use Rattle.std.proofs.lemmas.List.{drop-replicate}
use Rattle.setups.specs.Limits.{variables_most}
use Rattle.literals.specs.Slots.{opening}
use Rattle.literals.proofs.opening.Goals as goal

opened : (n : ℕ) (filled : List ℕ) → n ≤ variables_most → filled ≡ replicate (length (take n (replicate {A = ℕ} variables_most 0))) 2
    → filled ++ drop n (replicate {A = ℕ} variables_most 0) ≡ opening n
opened n filled h e =
    let size : length (take n (replicate {A = ℕ} variables_most 0)) ≡ n = omega (arith, length-take n (replicate {A = ℕ} variables_most 0)) in
    rw (e, size, drop-replicate {X = ℕ} n variables_most 0)

pub returns : goal.returns
returns c = opened c.args.count c.fill.new.self c.requires (c.fill.ensures.after (λ y h. h))
