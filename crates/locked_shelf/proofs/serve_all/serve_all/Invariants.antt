use Rattle.locked_shelf.proofs.serve_all.serve_all.Given as goal

-- as the shelf is
abbrev pub ghosts-serve_by : goal.ghosts-serve_by
ghosts-serve_by g a = record { writable = g.D.SharedShelf.takes a.shelf.now }
