-- `Progress::end_clause` meets its contract, by cases on the clause that ends.
use Rattle.forcing.proofs.RuleLaws.{ends_one}
use Rattle.forcing.proofs.forcing.Progress.end_clause.Goals as goal

pub returns-in-OneFree : goal.returns-in-OneFree
returns-in-OneFree c =
    let a = c.args in
    rw (c.slot.ensures, c.wish.ensures)
    (ends_one a.self.now a.seen _ c.in-OneFree.is c.requires)
