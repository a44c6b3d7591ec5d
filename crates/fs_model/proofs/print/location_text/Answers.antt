use Rattle.std.proofs.lemmas.List.{append_assoc}
use Rattle.fs_model.proofs.print.location_text.Goals as goal

pub returns : goal.returns
returns c = rw (← c.as_str.ensures) (simp append_assoc c.format.ensures.ok)
