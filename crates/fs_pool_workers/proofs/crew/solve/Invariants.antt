use Rattle.fs_pool_workers.proofs.crew.solve.Given as goal

-- what the board was made for
abbrev pub ghosts-search_together : goal.ghosts-search_together
ghosts-search_together g a = record { question = a.begun.board.question; limit = a.begun.board.board.limit }
