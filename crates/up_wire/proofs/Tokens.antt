-- A token of httparse's grammar is one of http's.
use Rattle.std.proofs.Common.{◌≡◌, ℕ, List, refl, sym, ◌∙◌}
use Rattle.httparse.specs.Grammar.{is_token_byte, IsToken}
use Rattle.http_header.specs.Token.{is_token_byte as is_header_token_byte, IsToken as IsHeaderToken}

pub is_token_byte-same : (b : ℕ) → is_token_byte b ≡ is_header_token_byte b
unfolding is_token_byte is_header_token_byte
is_token_byte-same b = refl

pub token_of_token : (text : List ℕ) → IsToken text → IsHeaderToken text
token_of_token text token = (token.0, λ k d inside. sym (is_token_byte-same _) ∙ token.1 k d inside)
