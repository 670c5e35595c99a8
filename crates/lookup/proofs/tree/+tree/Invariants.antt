-- The recursion of `lookup::tree::tree`. The level is the number that falls. Assumes nothing.
use Rattle.lookup.proofs.tree.+tree.Given as goal

abbrev pub decreases-tree : goal.decreases-tree
decreases-tree l = l.d
