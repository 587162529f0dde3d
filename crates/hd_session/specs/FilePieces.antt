-- The pieces of the file of a session, in either layout of its surface.
use Rattle.hd_session.specs.declared.file_pieces.Pieces.{Pieces}
use Rattle.hd_session.specs.declared.file_pieces.Pieces.TheVariants.{Narrow, Wide}
use Rattle.hd_sdf_write.specs.Pieces.{PiecesState}

abbrev pub pieces_in : Pieces → PiecesState
pieces_in (Narrow p) = p
pieces_in (Wide p) = p
