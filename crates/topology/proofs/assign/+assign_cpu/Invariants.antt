use Rattle.topology.proofs.assign.+assign_cpu.Given as goal

-- the levels that are left
abbrev pub decreases-assign_cpu : goal.decreases-assign_cpu
decreases-assign_cpu l = l.left
