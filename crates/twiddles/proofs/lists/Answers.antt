-- `twiddles::lists` meets its contract. Assumes nothing.
use Rattle.std.proofs.Common.{rules}
use Rattle.twiddles.specs.Tables.{t1, q1, w1, v1, t2, q2, w2, v2, roots_of, quotients_of, scales_of, scale_quotients_of}
use Rattle.twiddles.proofs.lists.Goals as goal

pub returns-in-First : goal.returns-in-First
unfolding roots_of quotients_of scales_of scale_quotients_of t1 q1 w1 v1
returns-in-First c = search rules

pub returns-in-Second : goal.returns-in-Second
unfolding roots_of quotients_of scales_of scale_quotients_of t2 q2 w2 v2
returns-in-Second c = search rules
