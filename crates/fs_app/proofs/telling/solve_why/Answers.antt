use Rattle.std.proofs.Common.{string_bytes}
use Rattle.fs_app.proofs.Told.{solved_told}
use Rattle.fs_app.proofs.telling.solve_why.Goals as goal

pub returns : goal.returns
returns c = λ is_json prices lines answer certified.
    solved_told is_json c.args.asked c.args.test.now prices lines c.args.output c.in_ok-told.told (string_bytes c.in_ok-below.below)
    c.args.certificate.now answer certified c.in_ok-below.ensures c.in_ok-told.ensures.text c.in_ok-told.ensures.status
