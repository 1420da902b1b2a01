mod Keys
mod Quotations
mod Spelt
mod Found
