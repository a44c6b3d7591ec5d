-- Where the token of a fault begins.
use Rattle.std.proofs.Common.{◌≡◌, ℕ, ◌+◌, ◌≤◌, List, Bool, sym, ap, ◌∙◌, subst, length, length-drop, drop, arith}
use Rattle.std.proofs.lemmas.List.{drop-drop, length-map}
use Rattle.fs_kinds.specs.declared.fault.Fault.{Fault}
use Rattle.fs_litmus_tokens.specs.declared.token.Token as tokens
use Rattle.fs_litmus_tokens.specs.Tokens.{AreTokens, view, views}
use Rattle.fs_litmus.specs.Title.{HasBody}
use Rattle.fs_litmus.specs.Reads.{HasTokens}
use Rattle.fs_app_error_messages.specs.Apart.{apart}
use Rattle.fs_app_error_messages.specs.Walks.{BeginsAt}
use Rattle.fs_app_error_messages.proofs.Relined.{relined}
use Rattle.fs_app_error_messages.specs.Points.{aim_of, IsFaultIn, IsFaultOf, IsPastTokens, IsTokenAt}
use Rattle.fs_app_error_messages.specs.declared.point.Aim.TheVariants.{InLine}

module _ (bytes text : List ℕ) (start line : ℕ) (has_body : HasBody bytes (drop start bytes) line) (is_text : text ≡ drop start bytes) where
  pub tokens_of : (made lent : List tokens.Token) (closed : Bool) → lent ≡ made → AreTokens text line (views made) closed → HasTokens bytes (views lent) closed
  tokens_of made lent closed same are =
      record { body = drop start bytes; line = line; has_body = has_body; are_tokens = subst (λ l. AreTokens l line (views lent) closed) is_text (subst (λ l. AreTokens text line (views l) closed) (sym same) are) }

  pub fault_of : (made lent : List tokens.Token) (closed : Bool) (f : Fault) (n : ℕ) → lent ≡ made → AreTokens text line (views made) closed → aim_of f ≡ InLine → IsFaultIn (apart (views lent) closed) f n → IsFaultOf bytes f n
  fault_of made lent closed f n same are has_line fault =
      let all = tokens_of made lent closed same are in
      record { has_line = has_line; tokens = views lent; closed = closed; has_tokens = all; apart_alike = relined bytes (views lent) closed all; is_fault = fault }

  pub past_tokens : (made lent : List tokens.Token) (closed : Bool) (n : ℕ) → lent ≡ made → AreTokens text line (views made) closed → length made ≤ n → IsPastTokens bytes n
  past_tokens made lent closed n same are h =
      let count : length (views lent) ≡ length made = length-map lent view ∙ ap length same in
      record { tokens = views lent; closed = closed; has_tokens = tokens_of made lent closed same are; past = omega (arith, count, h) }

  pub token_at : (n at : ℕ) → BeginsAt n text (drop at text) → IsTokenAt bytes n (start + at)
  token_at n at h =
      let same : drop at text ≡ drop (start + at) bytes = ap (drop at) is_text ∙ drop-drop at start bytes in
      record { body = drop start bytes; line = line; has_body = has_body; begins = subst (λ l. BeginsAt n l (drop (start + at) bytes)) is_text (subst (λ l. BeginsAt n text l) same h) }

pub within_text : (bytes text : List ℕ) (start : ℕ) → text ≡ drop start bytes → start ≤ length bytes → start + length text ≤ length bytes
within_text bytes text start e h =
    let same : length text ≡ length (drop start bytes) = ap length e in
    omega (arith, length-drop start bytes)
