use Rattle.std.proofs.Common.{◌+◌, List, ℕ, take, sym, subst, arith}
use Rattle.std.proofs.lemmas.List.{take_rest}
use Rattle.hd_num.specs.Lines.{is_line_feed}
use Rattle.hd_sdf_read.specs.FirstLine.{IsFirstLine}
use Rattle.hd_sdf_read.proofs.FirstBytes.{IsFirstLine-found, list_any-none}
use Rattle.hd_sdf_read.proofs.part_line.split_line.Goals as goal

pub returns-then-byte-eq10 : goal.returns-then-byte-eq10
returns-then-byte-eq10 c =
    subst (λ (rest : List ℕ). IsFirstLine c.args.text.now (take c.bytes.place c.args.text.now) rest) (sym (take_rest c.args.text.now (c.bytes.place + 1)))
    (IsFirstLine-found c.args.text.now c.bytes.place c.bytes-test.true c.bytes.invariant c.if-byte-eq10.true)

pub returns : goal.returns
returns c = list_any-none is_line_feed c.args.text.now (λ k inside. c.bytes.invariant k (omega arith))
