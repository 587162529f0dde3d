use Rattle.hd_map.proofs.near.beside_at.Goals as goal

pub returns-in_default : goal.returns-in_default
returns-in_default g c = λ q ex ey inside beside. c.in_default.ensures q ex ey (rw c.size.ensures inside)
