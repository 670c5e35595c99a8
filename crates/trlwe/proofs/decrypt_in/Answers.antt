-- `trlwe::decrypt_in` meets its contract. Assumes nothing.
use Rattle.std.proofs.Common.{arith}
use Rattle.trlwe.proofs.Masks.{room_made}
use Rattle.trlwe.proofs.decrypt_in.Goals as goal

pub returns : goal.returns
returns c = room_made _ _ _ _ _ _ _ _ _ _ (omega arith) (omega arith) c.clear_words.ensures c.add_masked.ensures c.decode_words.ensures
