use Rattle.test_threads.proofs.workers.two_holders_agree.Given as goal

abbrev pub ghosts-agree_once : goal.ghosts-agree_once
ghosts-agree_once g a = record { table = a.blank }
