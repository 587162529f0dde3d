use Rattle.std.proofs.Common.{arith, ap, length}
use Rattle.hd_morph.proofs.Flats.{IsFlat-all}
use Rattle.hd_morph.proofs.flat.flat_number.Goals as goal

pub returns-clause-flat : goal.returns-clause-flat
returns-clause-flat c =
    let same = ap length c.table-table.ensures.table in
    IsFlat-all c.args.element.now _ c.table-table.ensures.element (λ k below. c.loop-index.invariant k (omega arith))
