use Rattle.std.proofs.Common.{[], ◌∷◌, drop, Some, None, vec_items, sym, refl, ap, ◌∙◌, arith}
use Rattle.std.proofs.lemmas.List.{take_rest}
use Rattle.std.proofs.lemmas.Slice.{pushed}
use Rattle.std.specs.Bool.{then_some}
use Rattle.std.specs.Option.{option_map}
use Rattle.scripts.specs.Hex.{bytes_of}
use Rattle.scripts.proofs.Pairs.{before, before_push, pair_step, at_end}
use Rattle.scripts.proofs.hex.decode.Goals as goal

pub returns-in_default-pair : goal.returns-in_default-pair
returns-in_default-pair c =
    let items = vec_items c.loop-rest.bytes in
    sym (ap (before items) (pair_step c.loop-rest.rest.now None (omega arith) c.in_default-pair.ensures)) ∙ c.loop-rest.invariant

pub loop-rest-preserved : goal.loop-rest-preserved
loop-rest-preserved c =
    let items = vec_items c.loop-rest.bytes in
    let rest = c.loop-rest.rest.now in
    let b = c.in-Some.byte in
    ap (λ r. before (vec_items c.push.new.self) (bytes_of r)) (take_rest rest 2)
    ∙ ap (λ bs. before bs (bytes_of (drop 2 rest))) (pushed (b ∷ []) refl c.in_ok-push.was c.push.ensures.items)
    ∙ before_push items b (bytes_of (drop 2 rest))
    ∙ sym (ap (before items) (pair_step rest (Some b) (omega arith) c.in-Some.ensures)) ∙ c.loop-rest.invariant

pub returns : goal.returns
returns c =
    let rest = c.loop-rest.rest.now in
    let bytes = c.loop-rest.bytes in
    ap (option_map vec_items) (c.then_some.ensures ∙ ap (λ b. then_some b bytes) c.is_empty.ensures)
    ∙ at_end vec_items bytes rest c.in_default.len_below ∙ c.loop-rest.invariant
