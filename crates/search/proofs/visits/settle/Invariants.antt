-- `visits::settle` meets its contract. The loop's invariant: the values at hand settle as those at the start; each turn leaves one free fewer.
use mathlib.Core.Path.{◌≡◌}
use Rattle.setups.specs.Searching.{free_count, settle}
use Rattle.scans.specs.Parts.{all_of}
use Rattle.search.proofs.visits.settle.Given as goal

abbrev pub invariant-loop-values : goal.invariant-loop-values
invariant-loop-values l = settle (all_of l.clauses) l.values ≡ settle (all_of l.clauses) l.initial.values

abbrev pub decreases-loop-values : goal.decreases-loop-values
decreases-loop-values l = free_count l.values
