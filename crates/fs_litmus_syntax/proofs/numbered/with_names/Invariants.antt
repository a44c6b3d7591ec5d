use Rattle.std.proofs.Common.{◌≡◌, ◌∷◌, ◌++◌, drop}
use Rattle.fs_litmus_tokens.specs.Tokens.{kind_of, views}
use Rattle.fs_instr.specs.Operands.{toks}
use Rattle.fs_litmus_syntax.specs.Numbered.{operands}
use Rattle.fs_litmus_syntax.proofs.numbered.with_names.Given as goal

abbrev pub invariant-loop-token : goal.invariant-loop-token
invariant-loop-token l = toks l.all.items ++ operands (views (drop l.token-index l.rest)) ≡ kind_of l.mnemonic.kind ∷ operands (views l.rest)
