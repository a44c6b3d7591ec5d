use Rattle.std.proofs.Common.{◌≡◌, Bool, true, false, refl, sym, ◌∙◌, subst, IsUtf8}
use Rattle.fs_litmus.specs.Title.{HasTitle}
use Rattle.fs_litmus.proofs.Titles.{title_utf8}
use Rattle.fs_litmus.proofs.NoTitle.{is_text}
use Rattle.fs_litmus.proofs.title.read_title.Goals as goal

pub returns-in_err-title_of-clause-absent : goal.returns-in_err-title_of-clause-absent
returns-in_err-title_of-clause-absent c = λ _ name h.
    c.in_err-title_of.ensures.absent refl name (subst (λ t. HasTitle t name) (sym c.as_bytes.ensures.value) h)

both : (b : Bool) → b ≡ true → b ≡ false → ⊥
both b e f = cc

pub returns-clause-absent : goal.returns-clause-absent
returns-clause-absent c = λ none name h.
    let text = subst IsUtf8 (sym c.as_bytes.ensures.value) c.utf8.text in
    let name_text = title_utf8 c.as_bytes.result.now c.in_ok-title_of.field-0.now text c.in_ok-title_of.ensures.named in
    both _ (c.ok.ensures.variant ∙ is_text _ _ c.in_ok-title_of.field-0.now c.from_utf8.result c.from_utf8.ensures.cases name_text) none
