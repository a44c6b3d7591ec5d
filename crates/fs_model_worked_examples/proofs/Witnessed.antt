-- The histories with witnesses, step by step.
use Rattle.std.proofs.Common.{◌≡◌, ℕ, zero, suc, ◌+◌, ◌-◌, ◌*◌, None, Some, List, [], ◌∷◌, map, refl, ◌∙◌, ap, subst, arith, lit<, Box}
use Rattle.std.specs.declared.alloc.Global.{Global}
use Rattle.std.proofs.lemmas.Bool.{false≢true}
use Rattle.fs_kinds.specs.declared.kind.Kind.TheVariants.{WR, RwRw}
use Rattle.fs_kinds.specs.declared.reason.OperationName.{OperationName as Name}
use Rattle.fs_kinds.specs.PriceTable.{cost}
use Rattle.fs_kinds.specs.declared.placement.Entry.{Entry}
use Rattle.fs_model.specs.declared.step.Choice.TheVariants.{Word}
use Rattle.fs_model.specs.Operations.{steps_of}
use Rattle.fs_model.specs.Execution.{Execution, ObeysAxioms}
use Rattle.fs_model.specs.Witness.{name_of, IsOfWitness}
use Rattle.fs_cert_evidence.specs.Shown.{IsShownBy}
use Rattle.fs_board_offers.specs.Board.{Board}
use Rattle.fs_board_offers.specs.Histories.{IsHistory}
use Rattle.fs_model.proofs.Runs.{run_once}
use Rattle.fs_model_worked_examples.specs.StoreBuffering.{sb, code, registers, steps, fences, buffered}
use Rattle.fs_model_worked_examples.specs.Rows.{prices, offers, part, loads_first}
use Rattle.fs_model_worked_examples.specs.MessagePassing.{mp11, passing_offers, passing_part}
use Rattle.fs_model_worked_examples.specs.Witnessed.{closed_root, held_root}
use Rattle.fs_model_worked_examples.proofs.Named.{Numbers, numbered, same_name}
use Rattle.fs_model_worked_examples.proofs.Inversion.{two_runs}
use Rattle.fs_model_worked_examples.proofs.MessagePassing.{shown}
use Rattle.fs_model_worked_examples.proofs.StoreBuffering.{x, first, second}

pub closed : (p q : Box (Unit {0}) Global) → (board : Board) × IsHistory (mp11 p q) passing_offers 1 closed_root board
closed p q = (
  _,
  (
    _,
    (refl, refl, refl, refl),
    (
      _,
      (refl, refl),
      (
        _,
        (refl, refl),
        (
          _,
          (passing_part None None, refl, shown p q, refl),
          (_, (refl, refl, refl, refl), (_, (refl, refl, refl), refl)),
        ),
      ),
    ),
  ),
)

abbrev full : List Entry
full = fences (Some RwRw) (Some RwRw)

abbrev number : Name → ℕ
number name = name.hart * 2 + name.at - 1

numbers : Numbers x number
numbers zero name e = subst (λ n. 0 ≡ number n) (same_name e) refl
numbers (suc zero) name e = subst (λ n. 1 ≡ number n) (same_name e) refl
numbers (suc (suc zero)) name e = subst (λ n. 2 ≡ number n) (same_name e) refl
numbers (suc (suc (suc zero))) name e = subst (λ n. 3 ≡ number n) (same_name e) refl
numbers (suc (suc (suc (suc zero)))) name e = absurd cc
numbers (suc (suc (suc (suc (suc zero))))) name e = absurd cc
numbers (suc (suc (suc (suc (suc (suc a)))))) name e = absurd cc

-- it is no floor of a part that is undecided
dearer : fences (Some WR) (Some WR) ≡ fences None None → ⊥
dearer e = let costs : 18 ≡ 0 = ap (λ placement. cost prices placement) e in omega (arith, costs)

-- an order of the operations that the witness names goes against rw,rw
against : (ns : List ℕ) → map (name_of x) ns ≡ map (λ name. Some name) loads_first.order → ObeysAxioms x full ns → ⊥
against ns e axioms =
    let there = numbered x number numbers ns loads_first.order e in
    let obeyed = subst (λ ns. ObeysAxioms x full ns) there axioms in
    false≢true (obeyed.preserved 0 1 refl)

same_execution : (e f : Execution) → e.traces ≡ f.traces → e.order ≡ f.order → e ≡ f
same_execution e f g h =
    let whole : record { traces = e.traces; order = e.order } ≡ record { traces = f.traces; order = f.order } = cc in whole

module _ (p q : Box (Unit {0}) Global) where
  -- the witness gives the runs of `buffered` alone
  traces_of : (e : Execution) → IsOfWitness (sb p q) loads_first e → e.traces ≡ buffered.traces
  traces_of e w =
      let one = run_once 2 code (registers 4096 4112) (Word 0 ∷ []) (steps_of e.traces 0) (steps 4096 4112) (w.runs 0 (lit< tt)) (first p q, refl) in
      let other = run_once 2 code (registers 4112 4096) (Word 0 ∷ []) (steps_of e.traces 1) (steps 4112 4096) (w.runs 1 (lit< tt)) (second p q, refl) in
      two_runs e.traces w.harts ∙ (let a = one in let b = other in cc)

  pub only : (e : Execution) → IsOfWitness (sb p q) loads_first e → e ≡ buffered
  only e w =
      let traces = traces_of e w in
      let names = subst (λ runs. map (name_of (record { traces = runs; words = 0 ∷ 0 ∷ [] })) e.order ≡ map (λ name. Some name) loads_first.order) traces w.order in
      same_execution e buffered traces (numbered x number numbers e.order loads_first.order names)

  not_shown : IsShownBy (sb p q) full loads_first → ⊥
  not_shown (e, (w, shows)) =
      let same = traces_of e w in
      against e.order
      (subst (λ runs. map (name_of (record { traces = runs; words = 0 ∷ 0 ∷ [] })) e.order ≡ map (λ name. Some name) loads_first.order) same w.order)
      (subst (λ runs. ObeysAxioms (record { traces = runs; words = 0 ∷ 0 ∷ [] }) full e.order) same shows.execution.axioms)

  pub held : (board : Board) × IsHistory (sb p q) offers 1 held_root board
  held = (
    _,
    (
      _,
      (refl, refl),
      (
        _,
        (refl, refl, refl),
        (
          _,
          (part None None, refl, not_shown, refl),
          (_, (part None None, refl, dearer, refl), refl),
        ),
      ),
    ),
  )
