use Rattle.hd_tests.proofs.followed.pool_anew.Given as goal

abbrev pub ghosts-bring_up : goal.ghosts-bring_up
ghosts-bring_up g a = record { name = a.blank.name; parts = a.blank.parts }
