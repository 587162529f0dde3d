use Rattle.std.proofs.Common.{◌≡◌, ap, sym, ◌∙◌, min, drop}
use Rattle.std.specs.Option.{unwrap_or}
use Rattle.hd_base.specs.MemSource.{file_at, left_of, unread_of}
use Rattle.hd_base.proofs.Pieces.{piece-taken}
use Rattle.hd_base.proofs.mem_source.MemSourceSource.read.Goals as goal

pub returns-clause-bytes : goal.returns-clause-bytes
returns-clause-bytes c =
    let inside = c.self.inside in
    let file = file_at inside.files c.in-Some.index in
    let is_left : left_of c.args.self.now ≡ drop c.in-Some.taken file = ap left_of (sym c.self.view_is) ∙ ap (λ open_file. unwrap_or (unread_of inside.files open_file) _) c.in-Some.is in
    let is_rest : c.rest_of-rest.result.now ≡ drop c.in-Some.taken file = c.rest_of-rest.ensures.value ∙ ap (λ files. drop c.in-Some.taken (file_at files c.in-Some.index)) c.as_slice.ensures in
    let is_count = c.min-count.ensures ∙ ap (λ n. min n inside.piece) c.min.ensures in
    piece-taken _ file c.args.into.now c.copy_from_slice.new.self c.rest_of-rest.result.now c.in-Some.taken c.min-count.result inside.piece
    is_left is_rest c.copy_from_slice.ensures.after is_count c.self.invariant
