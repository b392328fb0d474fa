use Rattle.std.proofs.Common.{◌+◌, ◌<◌, ◌^◌, length, ap, arith}
use mathlib.Core.Logic.{inl}
use Rattle.definition.specs.Ascii.{bytes}
use Rattle.tree.specs.Few.{children_few}
use Rattle.tree.specs.Place.{left}
use Rattle.assignments.proofs.expense.count_assignments.Goals as goal

pub count-requires-clause-fits : goal.count-requires-clause-fits
count-requires-clause-fits c =
    let a = c.args.section in
    let few : 0 + length (left c.children.result) < 2 ^ 64 = omega (arith, ap length c.children.ensures, children_few a.tree.now a.at (bytes "Assignment"), c.ranges) in
    inl few
