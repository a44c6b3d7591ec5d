use Rattle.std.proofs.Common.{◌∙◌, ap}
use Rattle.std.specs.Prelude.{slice_range}
use Rattle.fs_litmus_tokens.specs.Tokens.{view, views}
use Rattle.fs_litmus_syntax.specs.Body.{cells_of}
use Rattle.fs_litmus_syntax.specs.Rows.{went_to, InCell, cell_token_next}
use Rattle.fs_litmus_syntax.proofs.Cells.{views_more}
use Rattle.fs_litmus_syntax.proofs.rows.take_in_cell.Goals as goal

pub returns-in-Plain-clause-value : goal.returns-in-Plain-clause-value
returns-in-Plain-clause-value c =
    let cs = cells_of c.args.cells.now.items in
    ap (λ x. went_to cs (InCell c.args.left x)) (views_more c.args.tokens.now c.args.start c.args.at c.args.token c.requires.order c.requires.within c.requires.item)
    ∙ ap (λ p. cell_token_next c.args.left (views (slice_range c.args.tokens.now c.args.start c.args.at)) cs (view c.args.token) p) c.in-Plain.ensures
