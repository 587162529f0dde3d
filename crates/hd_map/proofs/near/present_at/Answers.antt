use Rattle.hd_map.proofs.near.present_at.Goals as goal

pub returns-in_default : goal.returns-in_default
returns-in_default g c = λ q ex ey present. c.in_default.ensures q ex ey (rw c.size.ensures present.in_grid)
