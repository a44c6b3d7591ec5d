use Rattle.fs_app_dot.proofs.certified.told_pictures.Goals as goal

pub returns-clause-told : goal.returns-clause-told
returns-clause-told c = λ ws kept. (
  c.in_ok-pictures.pictures.items,
  c.in_ok-others.others.items,
  c.in_ok-pictures.ensures,
  c.in_ok-others.ensures.shown ws kept,
  c.in_ok-append.ensures.items,
)
