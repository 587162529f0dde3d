use Rattle.std.proofs.Common.{eqb-true}
use Rattle.hd_run.proofs.IsOfKind.{IsOfKind-piece}
use Rattle.hd_run.proofs.certificate_reader.feed_first_line.Goals as goal

pub begin-requires-clause-kind : goal.begin-requires-clause-kind
begin-requires-clause-kind c =
    IsOfKind-piece c.args.text c.args.piece.now _ c.in-Some.field-0 c.in-Some.ensures.0.high (eqb-true _ 10 c.in-Some.ensures.1) c.in_ok-extend_from_slice.ensures.ok
