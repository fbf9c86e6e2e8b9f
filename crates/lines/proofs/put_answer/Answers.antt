-- `put_answer` meets its contract: the ways out, the clashes and the last line, one after the other.
use native.Mathlib.Omega.{arith}
use Rattle.lines.proofs.Stored.{answer_length, answer_stored}
use Rattle.lines.proofs.put_answer.Goals as goal

pub returns : goal.returns
returns c =
    let a = c.args in
    let whole = answer_length a.outcome a.ways.now a.clashes.now in
    let ways = c.put_lines-after_ways_out.ensures in
    let clashes = c.put_lines-after_clashes.ensures in
    record {
      count = omega (arith, whole, ways.0, clashes.0);
      fits = omega (arith, c.requires, whole, ways.0, clashes.0);
      stored = answer_stored a.outcome a.ways.now a.clashes.now a.output.now _ _ _ _ _ ways.1 ways.0 clashes.1 clashes.0 c.put_last.ensures;
    }
