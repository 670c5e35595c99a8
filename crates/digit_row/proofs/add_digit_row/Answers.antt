-- `digit_row::add_digit_row` meets its contract. Assumes nothing.
use Rattle.std.proofs.Common.{◌≡◌, ◌/◌, length, ap, arith, rules, sym, ◌∙◌}
use Rattle.torus.specs.Bytes.{words}
use Rattle.gadget.specs.Digits.{digit_polynomial}
use Rattle.gadget.proofs.Bounds.{count_le}
use Rattle.gadget.proofs.Lists.{digit_polynomial_small}
use Rattle.digit_row.proofs.Accepted.{fitting, passed_number, refused, digits_bytes, sum_in_bytes}
use Rattle.digit_row.proofs.add_digit_row.Goals as goal

pub returns-in-Err : goal.returns-in-Err
returns-in-Err c = rw c.number.ensures (refused _ _ _ _ _ _ _ _ c.in-Err.refusal c.in-Err.ensures)

pub overflow_cast-gadget : goal.overflow_cast-gadget
overflow_cast-gadget c =
    let f = fitting _ _ _ _ _ _ _ _ c.in_default.ensures in
    record { fits = omega (arith, f.lawful) }

pub overflow_cast-gadget-2 : goal.overflow_cast-gadget-2
overflow_cast-gadget-2 c =
    let f = fitting _ _ _ _ _ _ _ _ c.in_default.ensures in
    record { fits = omega (arith, count_le _ _ f.lawful) }

pub overflow_cast-j : goal.overflow_cast-j
overflow_cast-j c =
    let f = fitting _ _ _ _ _ _ _ _ c.in_default.ensures in
    record { fits = omega (arith, f.within, count_le _ _ f.lawful) }

pub invariant_of-gadget : goal.invariant_of-gadget
invariant_of-gadget c = record { lawful = (fitting _ _ _ _ _ _ _ _ c.in_default.ensures).lawful }

pub write_digits-requires : goal.write_digits-requires
write_digits-requires c =
    let f = fitting _ _ _ _ _ _ _ _ c.in_default.ensures in
    (f.some, f.within, omega (arith, f.x_length, f.digits_length))

pub invariant_of-pair : goal.invariant_of-pair
invariant_of-pair c =
    let s = c.args in
    let f = fitting _ _ _ _ _ _ _ _ c.in_default.ensures in
    record {
      degree = f.degree;
      small_length = omega (arith, f.digits_length);
      row_length = f.row_length;
      small_words = rw (c.write_digits.ensures.polynomial, let n : length s.digits.now / 4 ≡ s.n = omega (arith, f.digits_length) in n) (digit_polynomial_small s.n s.g s.l s.j _ f.lawful);
    }

pub add_sparse_product-requires : goal.add_sparse_product-requires
add_sparse_product-requires c = (fitting _ _ _ _ _ _ _ _ c.in_default.ensures).out_length

pub returns : goal.returns
returns c =
    let s = c.args in
    let f = fitting _ _ _ _ _ _ _ _ c.in_default.ensures in
    let size : length s.digits.now / 4 ≡ s.n = omega (arith, f.digits_length) in
    let written = c.write_digits.ensures.polynomial ∙ ap (λ n. digit_polynomial n s.g s.l s.j (words s.x.now)) size in
    record {
      number_is = sym (passed_number _ _ _ _ _ _ _ _ c.in_default.ensures);
      digits_are = digits_bytes _ _ _ _ _ _ written (omega (arith, f.digits_length)) (λ i. search rules);
      out_is = sum_in_bytes _ _ _ _ _ _ written _ _ _ c.add_sparse_product.ensures (omega (arith, f.out_length)) (λ i. (c.type_inv.out i).fits);
    }
