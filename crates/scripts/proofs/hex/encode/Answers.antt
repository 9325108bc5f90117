use Rattle.std.proofs.Common.{◌≡◌, ℕ, ◌+◌, ◌<◌, ◌/◌, ◌%◌, false, List, [], ◌∷◌, ◌++◌, drop, slice_index_or, sym, ap, ◌∙◌, append_assoc, append-nil, arith, rules}
use Rattle.std.proofs.lemmas.List.{at_drop_more, at_drop_all}
use Rattle.std.proofs.lemmas.Fmt.{hex_byte}
use Rattle.std.specs.Fmt.{digit_glyph}
use Rattle.std.specs.String.{string_bytes}
use Rattle.scripts.specs.Hex.{digits_of}
use Rattle.scripts.proofs.hex.encode.Goals as goal

pub loop-b-init : goal.loop-b-init
loop-b-init c = ap (λ s. s ++ digits_of c.args.bytes.now) c.new-digits.ensures.bytes

pub loop-b-preserved : goal.loop-b-preserved
unfolding digits_of
loop-b-preserved c =
    let xs : List ℕ = c.args.bytes.now in
    let i : ℕ = c.loop-b.b-index in
    let old : List ℕ = string_bytes c.loop-b.digits in
    let b : ℕ = slice_index_or xs i 0 in
    let two : List ℕ = digit_glyph false (b / 16) ∷ digit_glyph false (b % 16) ∷ [] in
    let small : b < 256 = omega (arith, c.type_inv.bytes i) in
    let h = hex_byte false b small in
    let two_more : string_bytes c.write.new.self ≡ old ++ two = search (rules, h) in
    ap (λ s. s ++ digits_of (drop (i + 1) xs)) two_more
    ∙ append_assoc old two (digits_of (drop (i + 1) xs))
    ∙ ap (λ ds. old ++ ds) (sym (at_drop_more digits_of xs i 0 c.loop-b-test.true))
    ∙ c.loop-b.invariant

pub returns : goal.returns
unfolding digits_of
returns c =
    let xs : List ℕ = c.args.bytes.now in
    let old : List ℕ = string_bytes c.loop-b.digits in
    sym (append-nil old) ∙ ap (λ ds. old ++ ds) (sym (at_drop_all digits_of xs c.loop-b.b-index c.loop-b-test.false)) ∙ c.loop-b.invariant
