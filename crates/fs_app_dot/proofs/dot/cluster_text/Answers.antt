use Rattle.std.proofs.Common.{ℕ, List, ◌++◌, codes, decimal, ap, ◌∙◌}
use Rattle.std.proofs.lemmas.Result.{IfOk-weaker}
use Rattle.fs_app_dot.proofs.dot.cluster_text.Goals as goal

abbrev around : (hart : ℕ) → List ℕ → List ℕ
around hart boxes =
    codes "  subgraph cluster_P" ++ (decimal hart ++ (codes " { label=P" ++ (decimal hart
    ++ (codes "; color=\"#c0c0c0\"; fontsize=12;\n" ++ (boxes ++ codes "  }\n")))))

pub returns : goal.returns
returns c =
    IfOk-weaker c.format.result _ _
    (λ text is. is ∙ ap (around c.args.hart) (c.as_str.ensures.value ∙ c.in_ok-boxes.ensures)) c.format.ensures.ok
