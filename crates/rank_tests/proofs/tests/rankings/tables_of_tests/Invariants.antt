use Rattle.rank_tests.proofs.tests.rankings.tables_of_tests.Given as goal

abbrev pub ghosts-table : goal.ghosts-table
ghosts-table g a = record { name = a.blank.name; parts = a.blank.parts }
