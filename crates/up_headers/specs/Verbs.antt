-- The method that counts.
use Rattle.std.specs.Prelude.{ℕ, List, codes, bytes_eq, unwrap_or, if◌then◌else◌}
use Rattle.up_message.specs.Fields.{Field}
use Rattle.up_headers.specs.declared.verb.Verb.{Verb}
use Rattle.up_headers.specs.declared.verb.Verb.TheVariants as method
use Rattle.up_headers.specs.Fields.{value_in}

-- the method with this name; upper and lower case differ
abbrev pub verb_of : List ℕ → Verb
verb_of name =
    if bytes_eq name (codes "OPTIONS") then method.Options
    else (if bytes_eq name (codes "POST") then method.Post
    else (if bytes_eq name (codes "HEAD") then method.Head
    else (if bytes_eq name (codes "PATCH") then method.Patch
    else (if bytes_eq name (codes "DELETE") then method.Delete
    else (if bytes_eq name (codes "GET") then method.Get
    else method.Other)))))

-- the method that counts: that of the override, or else the message's own
abbrev pub chosen_verb : List ℕ → List Field → Verb
chosen_verb own fields = verb_of (unwrap_or (value_in (codes "x-http-method-override") fields) own)
