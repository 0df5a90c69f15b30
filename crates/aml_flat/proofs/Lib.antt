pub mod Laying
mod Rows
