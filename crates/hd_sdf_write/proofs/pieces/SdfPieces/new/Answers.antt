use Rattle.std.proofs.Common.{ℕ, List, ap₂, arith}
use Rattle.std.proofs.lemmas.List.{drop_all}
use Rattle.hd_sdf_write.specs.Pieces.{PiecesState, most_bytes}
use Rattle.hd_sdf_write.proofs.pieces.SdfPieces.new.Goals as goal

pub returns : goal.returns
returns g c =
    let state : List ℕ → List ℕ → PiecesState = λ piece left. record { piece = piece; left = left } in
    ap₂ state (drop_all most_bytes c.in_ok-room.room.items (omega (arith, c.in_ok-room.ensures.len))) c.in_ok-unwritten.ensures
