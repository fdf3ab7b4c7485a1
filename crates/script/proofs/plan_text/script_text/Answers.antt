use Rattle.script.proofs.TextLemmas.{text_put}
use Rattle.script.proofs.plan_text.script_text.Goals as goal

pub returns : goal.returns
returns c =
    text_put c.args.script.now c.as_slice-caches.result.now c.as_slice.result.now c.new-out.result c.put_header.new.out c.put_caches.new.out c.put_phases.new.out c.new-out.ensures c.as_slice-caches.ensures c.as_slice.ensures
    c.in_ok-put_header.ensures c.in_ok-put_caches.ensures.ok c.in_ok-put_phases.ensures
