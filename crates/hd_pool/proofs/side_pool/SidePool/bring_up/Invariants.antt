use Rattle.hd_pool.proofs.side_pool.SidePool.bring_up.Given as goal

abbrev pub ghosts-refresh : goal.ghosts-refresh
ghosts-refresh g a = record { name = a.blank.name; parts = a.blank.parts }
