-- `jobfile::text::write_output_of_longer` meets its contract. Assumes nothing.
use Rattle.jobfile.proofs.Texts.{shows_long}
use Rattle.jobfile.proofs.text.write_output_of_longer.Goals as goal

pub returns : goal.returns
returns c = λ file long. shows_long file _ _ _ _ long c.show.ensures
