use Rattle.std.proofs.Common.{◌≡◌, ap, ◌∙◌, rules}
use Rattle.request.specs.Requests.{request_by, request_of}
use Rattle.request.proofs.Laws.{exactly}
use Rattle.request.proofs.request.Request.read.Goals as goal

pub returns-in_err-letter : goal.returns-in_err-letter
unfolding request_of
returns-in_err-letter c =
    let m = c.args.bytes.now in
    let e : c.from_residual.result ≡ request_of m = search rules in
    record { value = e; exact = exactly m _ e }

pub returns : goal.returns
unfolding request_of
returns c =
    let m = c.args.bytes.now in
    let e : c.lettered.result ≡ request_of m = c.lettered.ensures ∙ ap (λ o. request_by o m) c.in_ok-letter.ensures in
    record { value = e; exact = exactly m _ e }
