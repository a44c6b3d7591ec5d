-- An object by its parts.
use Rattle.std.proofs.Common.{◌≡◌, ◌∙◌, ℕ, Option, List, ap}
use Rattle.serde_json.specs.Data.{Data}
use Rattle.fs_instr.specs.declared.instr.Instr.{Instr}
use Rattle.fs_kinds.specs.declared.placement.Entry.{Entry}
use Rattle.fs_kinds.specs.PriceTable.{PriceTable}
use Rattle.fs_board_offers.specs.Offers.{Offers}
use Rattle.fs_board_offers.specs.Offers as offers
use Rattle.fs_app_audit.specs.Audit.{Findings}
use Rattle.fs_app_audit.specs.InPlace.{offers_in_place, written_cost}
use Rattle.fs_app_audit_json_and_why.specs.Objects.{cost_of, in_place_object, in_place_value, rows_value}
use Rattle.fs_app_audit_json_and_why.specs.Rows.{rows_in_place}
use Rattle.fs_app_audit_json_and_why.specs.declared.rows.Row.{Row}

module _ (name : List ℕ) (f : Findings) (p : List Entry) where
  abbrev own : Offers
  own = offers_in_place f.prices f.test.codes

  pub in_place_parts : (os : Offers) (prices : PriceTable) (lines : List (List ℕ)) (codes : List (List Instr)) (anew : Option ℕ)
      (cost written : ℕ) (best : Option (List Entry)) (rows : List Row) (value : Data)
      → os ≡ own → prices ≡ f.prices → lines ≡ f.lines → codes ≡ f.test.codes
      → anew ≡ cost_of prices best → best ≡ f.best → cost ≡ offers.cost os p → written ≡ written_cost os
      → rows ≡ rows_in_place prices lines codes p → value ≡ rows_value rows
      → in_place_object name anew cost written value ≡ in_place_value name f p
  in_place_parts os prices lines codes anew cost written best rows value offered table stand code first found least all made shown =
      let found_anew = first ∙ ap (cost_of prices) found ∙ ap (λ t. cost_of t f.best) table in
      let costs = least ∙ ap (λ o. offers.cost o p) offered in
      let costs_written = all ∙ ap written_cost offered in
      let are_rows = made
      ∙ ap (λ t. rows_in_place t lines codes p) table
      ∙ ap (λ ls. rows_in_place f.prices ls codes p) stand
      ∙ ap (λ cs. rows_in_place f.prices f.lines cs p) code in
      ap (λ a. in_place_object name a cost written value) found_anew
      ∙ ap (λ c. in_place_object name (cost_of f.prices f.best) c written value) costs
      ∙ ap (λ w. in_place_object name (cost_of f.prices f.best) (offers.cost own p) w value) costs_written
      ∙ ap (in_place_object name (cost_of f.prices f.best) (offers.cost own p) (written_cost own)) (shown ∙ ap rows_value are_rows)
