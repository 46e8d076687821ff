-- Each call determines its answer, and what it leaves in the buffer that it is lent, since its contract is an equation for each. Assumes nothing.
use mathlib.Core.Path.{◌≡◌, sym, ◌∙◌}
use Rattle.program_io.proofs.read_table.Reads as read_table
use Rattle.program_io.proofs.Page.clear.Reads as clear
use Rattle.program_io.proofs.Page.new.Reads as new
use Rattle.program_io.proofs.put_byte.Reads as put_byte
use Rattle.program_io.proofs.put_number.Reads as put-number
use Rattle.program_io.proofs.put_text.Reads as put-text
use Rattle.program_io.proofs.Page.put_byte.Reads as page-byte
use Rattle.program_io.proofs.Page.put_number.Reads as page-number
use Rattle.program_io.proofs.Page.put_text.Reads as page-text
use Rattle.program_io.proofs.Page.written.Reads as written
use Rattle.law_unique.specs.Unique.{DeterminesBoth}

pub read_table_unique : DeterminesBoth (λ κs e. e.1.0) read_table.Learnt
read_table_unique κs a x y e f p q = (p.0 ∙ sym q.0, p.1 ∙ sym q.1)

pub put_byte_unique : DeterminesBoth (λ κs e. e.1.0) put_byte.Learnt
put_byte_unique κs a x y e f p q = (p.next ∙ sym q.next, p.is ∙ sym q.is)

pub put_text_unique : DeterminesBoth (λ κs e. e.1.0) put-text.Learnt
put_text_unique κs a x y e f p q = (p.next ∙ sym q.next, p.is ∙ sym q.is)

pub put_number_unique : DeterminesBoth (λ κs e. e.1.0) put-number.Learnt
put_number_unique κs a x y e f p q = (p.next ∙ sym q.next, p.is ∙ sym q.is)

-- of a page, its bytes and its place are determined
pub new_unique : (N fits κs : _) (a : _) (x y : _) (e f : _) → new.Learnt N fits κs a x e → new.Learnt N fits κs a y f → (x.at ≡ y.at) × (x.bytes ≡ y.bytes)
new_unique N fits κs a x y e f p q = (p.1 ∙ sym q.1, p.0 ∙ sym q.0)

pub clear_unique : (N fits κs : _) (a : _) (x y : _) (e f : _) → clear.Learnt N fits κs a x e → clear.Learnt N fits κs a y f →
    (e.0.now.at ≡ f.0.now.at) × (e.0.now.bytes ≡ f.0.now.bytes)
clear_unique N fits κs a x y e f p q = (p.1 ∙ sym q.1, p.0 ∙ sym q.0)

pub written_unique : (N fits κs : _) (a : _) (x y : _) (e f : _) → written.Learnt N fits κs a x e → written.Learnt N fits κs a y f → x.now ≡ y.now
written_unique N fits κs a x y e f p q = p ∙ sym q

pub page_byte_unique : (N fits κs : _) (a : _) (x y : _) (e f : _) → page-byte.Learnt N fits κs a x e → page-byte.Learnt N fits κs a y f →
    (e.0.now.at ≡ f.0.now.at) × (e.0.now.bytes ≡ f.0.now.bytes)
page_byte_unique N fits κs a x y e f p q = (p.next ∙ sym q.next, p.is ∙ sym q.is)

pub page_text_unique : (N fits κs : _) (a : _) (x y : _) (e f : _) → page-text.Learnt N fits κs a x e → page-text.Learnt N fits κs a y f →
    (e.0.now.at ≡ f.0.now.at) × (e.0.now.bytes ≡ f.0.now.bytes)
page_text_unique N fits κs a x y e f p q = (p.next ∙ sym q.next, p.is ∙ sym q.is)

pub page_number_unique : (N fits κs : _) (a : _) (x y : _) (e f : _) → page-number.Learnt N fits κs a x e → page-number.Learnt N fits κs a y f →
    (e.0.now.at ≡ f.0.now.at) × (e.0.now.bytes ≡ f.0.now.bytes)
page_number_unique N fits κs a x y e f p q = (p.next ∙ sym q.next, p.is ∙ sym q.is)
