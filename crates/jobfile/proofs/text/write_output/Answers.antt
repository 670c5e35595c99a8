-- `jobfile::text::write_output` meets its contract. Assumes nothing.
use Rattle.jobfile.proofs.Texts.{shows_whole}
use Rattle.jobfile.proofs.text.write_output.Goals as goal

pub returns-in-Ok : goal.returns-in-Ok
returns-in-Ok c =
    let told = c.in-Ok.ensures in
    shows_whole c.args.file.now _ _ _ _ told.0 told.2 c.show.ensures

pub returns-in-Err : goal.returns-in-Err
returns-in-Err c =
    let told = c.in-Err.ensures in
    shows_whole c.args.file.now _ _ _ _ told.0 told.1 c.show-in-Err.ensures
