-- The printed form is its parts, one after another.
use Rattle.std.proofs.Common.{◌≡◌, ℕ, List, ◌++◌, length, map, codes}
use Rattle.std.proofs.lemmas.List.{append_assoc}
use Rattle.fs_model.specs.declared.test.Test.{Test}
use Rattle.fs_model.specs.Condition.{condition_of}
use Rattle.fs_model.specs.Printed.{printed, locations_text, starts_text, header, rows_text, column, quantifier_text, condition_text}

regrouped : (risc name lf opened locations starts close head rows quantifier blank condition : List ℕ)
    → risc ++ name ++ (lf ++ opened ++ lf) ++ locations ++ starts ++ (close ++ lf ++ head ++ lf) ++ rows ++ (quantifier ++ blank) ++ condition ++ lf
    ≡ risc ++ name ++ lf ++ (opened ++ lf) ++ locations ++ starts ++ (close ++ lf) ++ (head ++ lf) ++ rows ++ (quantifier ++ blank ++ condition ++ lf)
regrouped risc name lf opened locations starts close head rows quantifier blank condition = simp append_assoc

pub assembled : (t : Test) (begun located started headed filled quantified asked whole : List ℕ)
    → begun ≡ codes "RISCV " ++ t.name ++ codes "\n{\n"
    → located ≡ begun ++ locations_text t.locations
    → started ≡ located ++ starts_text t.locations t.starts
    → headed ≡ started ++ (codes "}\n" ++ header (length t.codes) ++ codes "\n")
    → filled ≡ headed ++ rows_text (map column t.codes)
    → quantified ≡ filled ++ (quantifier_text t.quantifier ++ codes " ")
    → asked ≡ quantified ++ condition_text t.locations (condition_of t.condition)
    → whole ≡ asked ++ codes "\n"
    → whole ≡ printed t
unfolding printed
assembled t begun located started headed filled quantified asked whole e0 e1 e2 e3 e4 e5 e6 e7 =
    rw (e7, e6, e5, e4, e3, e2, e1, e0)
    (regrouped (codes "RISCV ") t.name (codes "\n") (codes "{") (locations_text t.locations) (starts_text t.locations t.starts) (codes "}") (header (length t.codes)) (rows_text (map column t.codes)) (quantifier_text t.quantifier) (codes " ") (condition_text t.locations (condition_of t.condition)))
