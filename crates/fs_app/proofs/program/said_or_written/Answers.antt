use Rattle.std.proofs.Common.{IfSome, List, refl, rules, string_bytes, subst, sym, ℕ}
use Rattle.std.specs.Arc.{arc_value}
use Rattle.fs_app_solve_and_check.specs.Found.{IsFound}
use Rattle.fs_app.specs.Answers.{IsFencedFile, written}
use Rattle.fs_app.proofs.program.said_or_written.Goals as goal

pub returns-in-Some : goal.returns-in-Some
returns-in-Some c =
    let prices : List ℕ = c.args.papers.now.prices.bytes.items in
    let text : List ℕ = string_bytes c.in-Some.text in
    let asked = arc_value c.args.found.now.question in
    let solved = c.args.found.now.solved in
    let limit : ℕ = c.requires.found.0 in
    let told : IsFound c.deref.result.now prices limit asked solved → IsFencedFile c.deref.result.now prices text =
    (subst (λ o. IfSome o (λ it. (prices : List ℕ) (limit : ℕ) → IsFound c.deref.result.now prices limit asked solved
    → IsFencedFile c.deref.result.now prices (string_bytes it))) c.in-Some.is c.in_ok-text.ensures) prices limit in
    let found : IsFound c.deref.result.now prices limit asked solved =
    subst (λ (it : List ℕ). IsFound it prices limit asked solved) (sym c.deref.ensures.value) c.requires.found.1 in
    written (search rules) (subst (λ (it : List ℕ). IsFencedFile it prices text) c.deref.ensures.value (told found)) refl
