-- What the reader of initial values answers, by the grammar.
use Rattle.std.proofs.Common.{List, refl, sym, subst}
use Rattle.fs_litmus_tokens.specs.Tokens.{Lined}
use Rattle.fs_litmus_tokens.specs.Sections.{scan, Scanned}
use Rattle.fs_litmus_syntax.specs.Init.{IsInit, next, start}
use Rattle.fs_litmus_syntax.proofs.FormAnswering.{scanned_both}
use Rattle.fs_litmus_syntax.proofs.InitResidual.{Left, scanned_left}

pub scanned_init : (ts : List Lined) → Scanned IsInit ts (scan next start ts)
scanned_init ts =
    scanned_both (Left start) IsInit (λ us a m h. subst (λ b. IsInit us b m) (sym h.all) h.is_block) (λ us a m h. record { more = a; is_block = h; all = refl }) ts _ (scanned_left start ts)
