-- Marks and the instructions of their numbers.
use Rattle.std.proofs.Common.{◌≡◌, ◌<◌, ◌∷◌, ◌++◌, [], ℕ, List, length, get_or, subst, sym, Option, option_map, refl, ap, ◌∙◌}
use denote.Ref.{Bor}
use Rattle.std.proofs.Math.ListN.{get_or-append}
use Rattle.std.proofs.Math.Seq.{get_or-append_seam}
use Rattle.std.proofs.lemmas.List.Elements.{All-head, All-tail, All-get_or}
use Rattle.std.proofs.lemmas.List.{map-append, get_or_default}
use Rattle.fs_instr.specs.declared.instr.Instr.{Instr}
use Rattle.fs_instr.specs.declared.instr.Instr.TheVariants as instr
use Rattle.fs_litmus_syntax.specs.declared.listing.Mark.{Mark}
use Rattle.fs_litmus_syntax.specs.declared.listing.Mark.TheVariants as mark
use Rattle.fs_litmus_syntax.specs.Cells.{Instruction}
use Rattle.fs_litmus_syntax.specs.inner.Listings.{item_at, marked, IsWithin, AreWithin}

at_kept : (code : List Instr) (i : Instr) (m : Mark) → IsWithin code m → item_at (code ++ i ∷ []) m ≡ item_at code m
at_kept code i (mark.Label name line) h = refl
at_kept code i (mark.Instruction number target line) h = ap (λ j. Instruction j (option_map (λ w. w.now) target) line) (get_or-append code (i ∷ []) instr.FenceTso number h)

pub marked_kept : (code : List Instr) (i : Instr) (marks : List Mark) → AreWithin code marks → marked (code ++ i ∷ []) marks ≡ marked code marks
marked_kept code i [] h = refl
marked_kept code i (m ∷ marks) h =
    let one = at_kept code i m (All-head (IsWithin code) m marks h) in
    let more = marked_kept code i marks (All-tail (IsWithin code) m marks h) in
    cc (one, more)

pub instruction_marked : (code new : List Instr) (i : Instr) (marks more : List Mark) (number : ℕ) (target : Option (Bor (List ℕ))) (line : ℕ) → AreWithin code marks → number ≡ length code → new ≡ code ++ i ∷ [] → more ≡ marks ++ mark.Instruction number target line ∷ [] → marked new more ≡ marked code marks ++ Instruction i (option_map (λ w. w.now) target) line ∷ []
instruction_marked code new i marks more number target line h e f g =
    let last : item_at (code ++ i ∷ []) (mark.Instruction (length code) target line) ≡ Instruction i (option_map (λ w. w.now) target) line = ap (λ j. Instruction j (option_map (λ w. w.now) target) line) (get_or-append_seam code i [] instr.FenceTso) in
    ap (λ c. marked c more) f
    ∙ ap (λ l. marked (code ++ i ∷ []) l) (g ∙ ap (λ n. marks ++ mark.Instruction n target line ∷ []) e)
    ∙ map-append (λ m. item_at (code ++ i ∷ []) m) marks (mark.Instruction (length code) target line ∷ [])
    ∙ ap (λ l. l ++ item_at (code ++ i ∷ []) (mark.Instruction (length code) target line) ∷ []) (marked_kept code i marks h)
    ∙ ap (λ x. marked code marks ++ x ∷ []) last

-- the instruction of a mark, which is there
pub instruction_at : (code : List Instr) (marks seen : List Mark) (i : ℕ) (d : Mark) (number : ℕ) (target : Option (Bor (List ℕ))) (line : ℕ) (x : Instr) → AreWithin code marks → seen ≡ marks → i < length seen → get_or seen i d ≡ mark.Instruction number target line → x ≡ get_or code number x → x ≡ get_or code number instr.FenceTso
instruction_at code marks seen i d number target line x h e lt at f =
    let there : number < length code = subst (λ m. IsWithin code m) at (All-get_or (IsWithin code) seen i d lt (subst (λ l. AreWithin code l) (sym e) h)) in
    f ∙ get_or_default code number x instr.FenceTso there
