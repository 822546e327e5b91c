use Rattle.std.proofs.Common.{◌∙◌, sym, arith}
use Rattle.mds_types.proofs.MaskLemmas.{hex_read}
use Rattle.mds_types.proofs.rank_set.from_hex.Goals as goal

pub returns : goal.returns
returns c =
    let plain = sym (c.starts_with.ensures.byte (omega arith) (omega arith) (λ w o h. h)) ∙ c.if-starts_with.false in
    c.ok.ensures.value ∙ hex_read c.args.digits.now c.from_str_radix.result c.from_str_radix.ensures.value plain
    (omega (arith, c.if-digits-gt-DIGIT_LIMIT.false))
