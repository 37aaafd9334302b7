use Rattle.wh_batch.proofs.FaultLemmas.{told-fault}
use Rattle.wh_batch.proofs.place.fault_in.Goals as goal

pub returns-in-Ticket : goal.returns-in-Ticket
returns-in-Ticket c = rw c.in-Ticket.is (told-fault (λ x. x) c.key_of.result _ c.fault_of.result c.key_of.ensures c.fault_of.ensures)

pub returns-in-Key : goal.returns-in-Key
returns-in-Key c = rw c.in-Key.is (told-fault (λ x. x) c.key_of-in-Key.result _ c.fault_of-in-Key.result c.key_of-in-Key.ensures c.fault_of-in-Key.ensures)

pub returns-in-CustomerKey : goal.returns-in-CustomerKey
returns-in-CustomerKey c = rw c.in-CustomerKey.is (told-fault (λ x. x) c.customer_of.result _ c.fault_of-in-CustomerKey.result c.customer_of.ensures c.fault_of-in-CustomerKey.ensures)

pub returns-in-Day : goal.returns-in-Day
returns-in-Day c = rw c.in-Day.is (told-fault (λ x. x) c.day_of.result _ c.fault_of-in-Day.result c.day_of.ensures c.fault_of-in-Day.ensures)

pub returns-in-EffectiveDay : goal.returns-in-EffectiveDay
returns-in-EffectiveDay c = rw c.in-EffectiveDay.is (told-fault (λ x. x) c.effective_day_of.result _ c.fault_of-in-EffectiveDay.result c.effective_day_of.ensures c.fault_of-in-EffectiveDay.ensures)

pub returns-in-Value : goal.returns-in-Value
returns-in-Value c = rw c.in-Value.is (told-fault (λ x. x) c.value_of.result _ c.fault_of-in-Value.result c.value_of.ensures c.fault_of-in-Value.ensures)

pub returns-in-Line : goal.returns-in-Line
returns-in-Line c = rw c.in-Line.is (told-fault (λ x. x) c.line_of.result _ c.fault_of-in-Line.result c.line_of.ensures c.fault_of-in-Line.ensures)

pub returns-in-Quantity : goal.returns-in-Quantity
returns-in-Quantity c = rw c.in-Quantity.is (told-fault (λ x. x) c.quantity_of.result _ c.fault_of-in-Quantity.result c.quantity_of.ensures c.fault_of-in-Quantity.ensures)

pub returns-in-Amount : goal.returns-in-Amount
returns-in-Amount c = rw c.in-Amount.is (told-fault (λ x. x) c.amount_of.result _ c.fault_of-in-Amount.result c.amount_of.ensures c.fault_of-in-Amount.ensures)

pub returns-in-Discount : goal.returns-in-Discount
returns-in-Discount c = rw c.in-Discount.is (told-fault (λ x. x) c.discount_of.result _ c.fault_of-in-Discount.result c.discount_of.ensures c.fault_of-in-Discount.ensures)
