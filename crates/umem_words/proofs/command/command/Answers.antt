use Rattle.umem_words.proofs.ToldLemmas.{added, helpless, nameless}
use Rattle.umem_words.proofs.command.command.Goals as goal

pub returns : goal.returns
returns c =
    let bare = nameless c.new.result c.no_binary_name.result _ c.no_binary_name.ensures c.new.ensures.app in
    let plain = helpless c.no_binary_name.result c.disable_help_flag.result _ c.disable_help_flag.ensures bare in
    let one = added c.disable_help_flag.result c.in_ok-arg.field-0 c.mode.result _ _ c.in_ok-arg.ensures
    c.mode.ensures.own c.mode.ensures.rule plain in
    let two = added c.in_ok-arg.field-0 c.in_ok-arg-2.field-0 c.file.result _ _ c.in_ok-arg-2.ensures
    c.file.ensures.own c.file.ensures.rule one in
    let three = added c.in_ok-arg-2.field-0 c.in_ok-arg-3.field-0 c.option.result _ _ c.in_ok-arg-3.ensures
    c.option.ensures.own c.option.ensures.rule two in
    let four = added c.in_ok-arg-3.field-0 c.in_ok-arg-4.field-0 c.option-2.result _ _ c.in_ok-arg-4.ensures
    c.option-2.ensures.own c.option-2.ensures.rule three in
    let five = added c.in_ok-arg-4.field-0 c.in_ok-arg-5.field-0 c.option-3.result _ _ c.in_ok-arg-5.ensures
    c.option-3.ensures.own c.option-3.ensures.rule four in
    let six = added c.in_ok-arg-5.field-0 c.in_ok-arg-6.field-0 c.option-4.result _ _ c.in_ok-arg-6.ensures
    c.option-4.ensures.own c.option-4.ensures.rule five in
    added c.in_ok-arg-6.field-0 c.in_ok-command.command c.option-5.result _ _ c.in_ok-command.ensures
    c.option-5.ensures.own c.option-5.ensures.rule six
