use Rattle.std.proofs.Common.{◌∙◌, string_bytes, subst}
use Rattle.fs_app_dot.specs.Pictures.{IsPicture}
use Rattle.fs_app_dot.proofs.without.drawn_without.Goals as goal

pub returns-clause-drawn : goal.returns-clause-drawn
returns-clause-drawn c =
    subst (λ title. IsPicture title (string_bytes c.in_ok-picture.picture.text)) (c.as_str.ensures.value ∙ c.in_ok-title.ensures)
    c.in_ok-picture.ensures.drawn
