-- What is printed in place, by its parts.
use Rattle.std.proofs.Common.{◌≡◌, ◌∙◌, ◌++◌, ℕ, Option, List, ap}
use Rattle.fs_instr.specs.declared.instr.Instr.{Instr}
use Rattle.fs_kinds.specs.declared.placement.Entry.{Entry}
use Rattle.fs_kinds.specs.PriceTable.{PriceTable}
use Rattle.fs_board_offers.specs.Offers.{Offers}
use Rattle.fs_board_offers.specs.Offers as offers
use Rattle.fs_app_audit.specs.Audit.{Findings, in_place_text}
use Rattle.fs_app_audit.specs.InPlace.{anew_text, costs_line, lines_in_place, offers_in_place, written_cost}

module _ (f : Findings) (p : List Entry) where
  abbrev text-of : PriceTable → List (List ℕ) → List (List Instr) → (written cost : ℕ) → Option (List Entry) → List ℕ
  text-of prices lines codes written cost best =
      costs_line written cost (anew_text prices best) ++ lines_in_place prices lines codes p

  pub in_place_parts : (os : Offers) (prices : PriceTable) (lines : List (List ℕ)) (codes : List (List Instr)) (written cost : ℕ)
      (best : Option (List Entry)) (first below : List ℕ)
      → os ≡ offers_in_place f.prices f.test.codes → prices ≡ f.prices → lines ≡ f.lines → codes ≡ f.test.codes
      → written ≡ written_cost os → cost ≡ offers.cost os p → best ≡ f.best
      → first ≡ costs_line written cost (anew_text prices best) → below ≡ lines_in_place prices lines codes p
      → first ++ below ≡ in_place_text f p
  in_place_parts os prices lines codes written cost best first below offered table stand code all least found begins ends =
      let own = offers_in_place f.prices f.test.codes in
      ap (λ text. text ++ below) begins
      ∙ ap (λ text. costs_line written cost (anew_text prices best) ++ text) ends
      ∙ ap (λ t. text-of t lines codes written cost best) table
      ∙ ap (λ ls. text-of f.prices ls codes written cost best) stand
      ∙ ap (λ cs. text-of f.prices f.lines cs written cost best) code
      ∙ ap (λ n. text-of f.prices f.lines f.test.codes n cost best) (all ∙ ap written_cost offered)
      ∙ ap (λ n. text-of f.prices f.lines f.test.codes (written_cost own) n best) (least ∙ ap (λ o. offers.cost o p) offered)
      ∙ ap (λ b. text-of f.prices f.lines f.test.codes (written_cost own) (offers.cost own p) b) found
