-- `lookup::tree::keep` meets its contract. Assumes nothing.
use Rattle.std.proofs.Common.{◌-◌, ◌/◌, List, ◌++◌, length, drop, ap, ◌∙◌, arith}
use Rattle.torus.specs.Bytes.{words}
use Rattle.torus.proofs.Parts.{front_back}
use Rattle.lookup.proofs.tree.keep.Goals as goal

pub returns : goal.returns
returns c =
    let own = length c.args.sample.now in
    front_back (own / 4) (own - 0) c.args.work.now c.copy_words.new.out (omega (arith, c.requires.0)) (omega arith)
    ∙ ap (λ (l : List _). l ++ drop (own / 4) (words c.args.work.now)) c.copy_words.ensures
