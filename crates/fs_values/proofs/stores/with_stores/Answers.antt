use Rattle.std.proofs.Common.{◌≡◌, ◌↔◌, ◌⊎◌, ◌++◌, ℕ, List, ap, ◌∙◌}
use Rattle.std.specs.List.{Contains}
use Rattle.std.proofs.lemmas.List.{take_all}
use Rattle.fs_values.proofs.Answered.{if_ok}
use Rattle.fs_values.proofs.Stored.{store, words_at, with_words}
use Rattle.fs_values.proofs.stores.with_stores.Goals as goal

abbrev Same : List ℕ → List ℕ → Type 0
Same words set = (word : ℕ) → Contains set word ↔ Contains words word

pub returns-clause-words : goal.returns-clause-words
returns-clause-words c =
    let address = c.args.address in
    let stores = c.args.stores.now in
    let set = c.args.set.now in
    let words = c.loop-store.words.items in
    let is : words ≡ set ++ words_at address stores =
    c.loop-store.invariant ∙ ap (λ xs. set ++ words_at address xs) (take_all c.loop-store.store-index stores c.loop-store-test.false) in
    let with = with_words address stores set words is in
    if_ok (Same words) (λ more. (word : ℕ) → Contains more word ↔ (Contains set word ⊎ Contains stores (store address word))) c.rising.result
    c.rising.ensures.same
    (λ more same word. ((λ has. (with word).0 ((same word).0 has)), (λ either. (same word).1 ((with word).1 either))))
