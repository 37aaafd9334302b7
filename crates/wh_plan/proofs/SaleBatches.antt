-- Batches of sales.
pub mod SalePremises
pub mod SalesEdits
pub mod SalesKeys
pub mod SalesMembers
pub mod SalesNaturals
pub mod SalesRows
pub mod Placeholders
pub mod Selling
